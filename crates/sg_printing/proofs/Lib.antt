pub mod Right
pub mod Along
pub mod Kept
pub mod Texts
