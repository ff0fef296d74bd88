pub mod Selections
pub mod Seen
pub mod Turned
pub mod States
pub mod Beginnings
pub mod Paged
