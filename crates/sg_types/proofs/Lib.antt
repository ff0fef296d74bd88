pub mod CaseLemmas
pub mod Smaller
pub mod FirstPlaces
