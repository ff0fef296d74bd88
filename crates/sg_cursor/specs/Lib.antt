pub mod LexedView
pub mod Left
