pub mod Tables
pub mod Range
pub mod Starts
pub mod Sizes
pub mod Checked
