pub mod Reasons
pub mod Scenes
