pub mod Attributed
pub mod Held
pub mod Buffers
pub mod AsBefore
pub mod Gains
