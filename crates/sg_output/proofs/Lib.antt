pub mod Laws
pub mod Past
pub mod Fronts
pub mod Endings
pub mod Requests
pub mod Turns
pub mod Opened
pub mod Fetches
pub mod Jobs
pub mod Blank
pub mod CauseLaws
pub mod Exits
pub mod Worked
pub mod Works
pub mod Filing
mod Sizes
