pub mod Cycles
pub mod Samples
