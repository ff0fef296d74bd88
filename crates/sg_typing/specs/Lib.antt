pub mod Arguments
pub mod Bodies
pub mod BodiesView
pub mod ShownTypes
pub mod Checked
pub mod Written
pub mod Known
pub mod Mismatches
