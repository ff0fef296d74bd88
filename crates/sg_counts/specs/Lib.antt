pub mod Crowds
pub mod Limits
pub mod OwnersView
pub mod Definitions
pub mod DefinitionsView
pub mod Duplicates
