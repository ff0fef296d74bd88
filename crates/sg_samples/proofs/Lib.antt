pub mod Derived
pub mod Known
pub mod Steps
pub mod Listing
