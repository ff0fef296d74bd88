pub mod Screens
pub mod Whole
pub mod Sessions
pub mod Blocks
pub mod Refusals
pub mod Verdicts
