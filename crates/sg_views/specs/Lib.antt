pub mod PiecesView
pub mod Schemes
pub mod Views
