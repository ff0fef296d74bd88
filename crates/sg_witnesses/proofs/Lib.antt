pub mod Told
pub mod Sampled
