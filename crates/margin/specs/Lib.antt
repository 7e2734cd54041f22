pub mod Groups
pub mod Lines
