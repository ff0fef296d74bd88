pub mod Mistyped
