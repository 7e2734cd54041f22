pub mod Clear
pub mod Scan
