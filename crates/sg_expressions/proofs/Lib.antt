pub mod Depths
pub mod WithLaws
pub mod Climbs
