mod Worked
pub mod Behind
pub mod Clipped
pub mod Editable
pub mod Large
pub mod Listed
pub mod Placed
pub mod Shaped
pub mod Smaller
pub mod Transformed
