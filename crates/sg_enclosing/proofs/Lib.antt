pub mod FarValues
pub mod NearSame
