pub mod Console
pub mod Lines
pub mod MemConsole
pub mod Entry
