pub mod Lists
pub mod Exact
pub mod Derivations
pub mod Running
pub mod Consume
pub mod Suffix
pub mod Keeping
pub mod Goes
pub mod Ends
mod Worked
pub mod Stacks
pub mod Completion
pub mod Exit
pub mod Halts
pub mod Inputs
