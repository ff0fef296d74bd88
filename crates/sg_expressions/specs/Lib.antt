pub mod ExprNests
pub mod Joined
pub mod WithParts
