pub mod Attrs
pub mod Found
pub mod Lines
pub mod Reports
pub mod Answers
pub mod Refused
