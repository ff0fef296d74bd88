pub mod Worklist
pub mod Scenes
pub mod Moves
pub mod Asked
pub mod Exchanged
