pub mod Places
pub mod LevelNumbers
