pub mod Counted
pub mod Framed
pub mod Topped
pub mod Dropped
pub mod Roots
pub mod Told
pub mod Steps
pub mod Placed
