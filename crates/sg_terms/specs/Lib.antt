pub mod Found
pub mod Labels
pub mod Occurrences
pub mod Storable
pub mod Kept
pub mod Entries
