pub mod Roots
pub mod Noted
pub mod Turns
pub mod Known
pub mod Puts
pub mod Stepped
