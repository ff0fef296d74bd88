pub mod Evaluations
pub mod Entering
pub mod Selected
