pub mod Edits
pub mod Tries
pub mod Nearby
