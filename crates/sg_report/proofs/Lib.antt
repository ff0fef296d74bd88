pub mod Walking
pub mod Own
pub mod Reading
pub mod Counted
pub mod Worked
pub mod Refusals
