pub mod Things
pub mod Known
pub mod Signatures
