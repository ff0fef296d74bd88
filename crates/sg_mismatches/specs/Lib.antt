pub mod Mistypes
