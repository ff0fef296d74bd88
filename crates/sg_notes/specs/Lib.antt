pub mod Subjects
pub mod Declared
pub mod Notes
