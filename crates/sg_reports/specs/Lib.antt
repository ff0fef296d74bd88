pub mod Places
pub mod Symbols
pub mod Items
pub mod Vertices
pub mod Tables
pub mod Orders
