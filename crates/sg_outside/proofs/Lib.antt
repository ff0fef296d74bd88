pub mod FileSearch
pub mod Tally
pub mod Untold
