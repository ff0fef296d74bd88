mod Examples
pub mod Scans
pub mod FirstByte
pub mod Longest
pub mod Literals
pub mod FormLemmas
pub mod SymbolLemmas
pub mod TokenLemmas
pub mod TokenLaws
pub mod CutLemmas
