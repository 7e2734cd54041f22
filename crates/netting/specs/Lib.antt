pub mod Limits
pub mod Laws
