pub mod Expands
pub mod Samples
pub mod Table
