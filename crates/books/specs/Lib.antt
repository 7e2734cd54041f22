pub mod Maps
pub mod Book
