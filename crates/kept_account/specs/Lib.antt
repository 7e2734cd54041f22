pub mod Margins
pub mod Positions
pub mod Accounts
