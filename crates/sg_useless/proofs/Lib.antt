pub mod Flags
pub mod SameParts
pub mod Numbers
pub mod Whole
