pub mod Roots
pub mod Tables
pub mod Low
pub mod Counted
pub mod Finds
pub mod Finished
pub mod Order
