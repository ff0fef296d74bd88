pub mod Counts
pub mod FirstLines
pub mod Names
pub mod Spelled
pub mod SpelledScripts
