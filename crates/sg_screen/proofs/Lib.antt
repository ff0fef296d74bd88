pub mod Windows
mod Worked
