pub mod Counted
pub mod Declarations
