pub mod Openings
pub mod Stages
pub mod Loop
