pub mod Spelling
pub mod Misfits
pub mod Read
pub mod Heads
pub mod Ahead
pub mod Answers
