pub mod Examples
pub mod Rewritings
