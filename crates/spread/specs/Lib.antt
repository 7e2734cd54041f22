pub mod Sides
pub mod Laws
pub mod Parts
