pub mod Room
pub mod Bytes
pub mod Small
