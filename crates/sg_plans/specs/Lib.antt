pub mod Planned
pub mod Segments
pub mod Stepping
