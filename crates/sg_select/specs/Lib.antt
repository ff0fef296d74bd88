pub mod RestingPlaces
pub mod Around
pub mod Leads
pub mod Kept
pub mod Paths
