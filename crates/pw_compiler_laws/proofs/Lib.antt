mod Flat
pub mod Ground
pub mod Grounds
mod Operands
mod Readings
mod Leading
mod Suits
mod Fields
mod Screens
mod Sending
pub mod Arguments
mod Calls
mod Statements
mod Whole
mod Placed
mod Depths
mod Flow
mod Programs
mod Resolving
pub mod Decks
mod Behaves
mod Split
pub mod Serves
mod Items
mod Emits
pub mod Valid
pub mod Showing
mod Upper
pub mod Fitting
pub mod Given
mod Numerals
mod Scanned
pub mod numbers
