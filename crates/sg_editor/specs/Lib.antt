pub mod Session
pub mod Ask
pub mod Screen
pub mod Editing
pub mod Steps
pub mod Refused
pub mod Buffers
