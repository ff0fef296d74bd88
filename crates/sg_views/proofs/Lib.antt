pub mod PiecesMade
pub mod ViewNames
pub mod ViewRows
