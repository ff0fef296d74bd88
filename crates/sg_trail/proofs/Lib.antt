pub mod Telling
pub mod Saving
pub mod Back
