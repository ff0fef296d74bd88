pub mod Under
pub mod MadeUnder
pub mod InRange
pub mod Transformation
pub mod Refusal
