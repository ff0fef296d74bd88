pub mod Advice
pub mod Named
pub mod Help
pub mod Answers
pub mod Endings
pub mod Runs
