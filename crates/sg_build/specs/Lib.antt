pub mod Rest
pub mod Counted
pub mod Grown
