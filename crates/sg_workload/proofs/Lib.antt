pub mod Counts
mod Worked
pub mod Performing
pub mod Quiet
pub mod Ending
