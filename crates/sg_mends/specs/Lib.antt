pub mod Pieces
pub mod Mends
