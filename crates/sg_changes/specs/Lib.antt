pub mod Changes
pub mod Chain
pub mod StepChanges
pub mod Captured
pub mod Top
