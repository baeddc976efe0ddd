pub mod Computed
pub mod DeckLaws
