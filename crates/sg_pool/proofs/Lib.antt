pub mod Pooled
pub mod Inserted
pub mod Grown
