pub mod Precedence
pub mod WellGrouped
pub mod Levels
pub mod LineTable
pub mod Spread
pub mod Sources
pub mod LevelDerives
