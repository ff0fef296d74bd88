pub mod Grammar
pub mod WellFormed
pub mod Numbered
pub mod Derives
