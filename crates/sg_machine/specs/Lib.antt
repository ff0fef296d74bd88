pub mod Machine
pub mod Sentences
pub mod Kept
