pub mod Writing
pub mod Fields
