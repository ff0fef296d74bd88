pub mod Codes
pub mod Names
pub mod Fronts
pub mod Ends
pub mod Spellings
pub mod Forms
pub mod Noting
pub mod ReadSoFar
