pub mod Files
pub mod Kinds
pub mod Machine
pub mod Notes
pub mod Readers
