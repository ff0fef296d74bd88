pub mod Put
pub mod Cases
pub mod Places
