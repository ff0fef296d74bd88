pub mod Free
pub mod Begun
pub mod Times
pub mod Trees
pub mod Gaining
pub mod Swaps
pub mod Coming
pub mod Turning
pub mod Values
pub mod Dropping
pub mod Putting
pub mod Turnable
pub mod Hanging
pub mod Placing
pub mod Stepping
pub mod Localless
pub mod Telling
mod Worked
mod Reached
