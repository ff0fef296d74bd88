pub mod Seen
pub mod Walks
pub mod Names
pub mod Clashing
pub mod SameKeys
pub mod Along
pub mod Order
pub mod Distinct
