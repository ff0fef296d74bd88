pub mod Resolved
pub mod Counts
pub mod Unfinished
