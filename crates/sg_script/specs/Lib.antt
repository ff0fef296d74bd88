pub mod Commands
pub mod Forms
pub mod Message
pub mod Script
pub mod Spelled
pub mod Words
