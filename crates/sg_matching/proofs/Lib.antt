pub mod NodeValues
pub mod MadeValues
pub mod Matched
pub mod FirstFound
pub mod Applied
pub mod Numbered
