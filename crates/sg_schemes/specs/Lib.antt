pub mod Strings
pub mod Places
pub mod ShownFlags
pub mod NoScheme
pub mod Spots
