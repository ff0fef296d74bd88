pub mod PatternNests
