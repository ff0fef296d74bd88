pub mod Node
pub mod Kids
pub mod Up
pub mod Trees
pub mod Tree
pub mod Steps
