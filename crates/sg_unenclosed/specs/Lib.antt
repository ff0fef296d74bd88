pub mod Unenclosed
