pub mod Found
pub mod Gathered
pub mod ReplacedAll
pub mod Walked
pub mod Made
pub mod Why
pub mod Heads
