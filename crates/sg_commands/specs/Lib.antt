pub mod Turn
pub mod Turns
pub mod Clipped
pub mod Input
pub mod Typing
pub mod Did
pub mod Replaced
