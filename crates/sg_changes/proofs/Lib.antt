pub mod Marking
pub mod Chained
pub mod Telling
pub mod Showing
pub mod Texts
