pub mod Causes
pub mod Chains
pub mod Dependencies
pub mod Steps
