pub mod Lines
pub mod Workload
pub mod Loads
pub mod Performed
