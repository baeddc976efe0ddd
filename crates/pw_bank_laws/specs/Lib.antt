pub mod Accounts
pub mod Balances
pub mod Servers
pub mod Statements
pub mod Teller
