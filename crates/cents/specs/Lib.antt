pub mod Converted
pub mod Stages
