pub mod Same
pub mod Held
pub mod Steps
pub mod Holding
pub mod Moved
pub mod Written
pub mod Made
pub mod Typed
