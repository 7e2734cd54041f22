pub mod Deposited
pub mod Shorts
pub mod Before
pub mod Keys
pub mod Covered
pub mod Accounts
