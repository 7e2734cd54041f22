pub mod Kinds
pub mod Signed
pub mod Shifts
