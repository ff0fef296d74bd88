pub mod Loops
pub mod HeadLaws
