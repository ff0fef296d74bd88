pub mod ShapeLexemes
pub mod Resolved
pub mod Limited
