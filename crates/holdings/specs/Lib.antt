pub mod Seen
pub mod Facts
