pub mod Escaped
pub mod Flags
pub mod Least
pub mod FirstMissing
pub mod Order
pub mod Spots
pub mod FirstInText
