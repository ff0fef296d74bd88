pub mod Parts
pub mod Reach
pub mod Named
pub mod Uses
pub mod Keys
pub mod Useless
