pub mod Firsts
pub mod Lacks
