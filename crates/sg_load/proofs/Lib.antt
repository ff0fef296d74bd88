mod Tokens
mod PatternSteps
mod WrittenText
mod WrittenMarks
mod WrittenTrees
mod WrittenDecls
pub mod WrittenLaws
mod LongerLists
mod LongerNames
mod LongerShapes
mod AlikeRemotes
mod FarLists
mod FarAtoms
mod FarAttrs
mod FarPhyla
mod FarCounts
pub mod FarSound
pub mod NamesRead
pub mod FirstLaws
pub mod LexemeFaults
pub mod Phases
pub mod RecordApart
pub mod RecordSchemes
pub mod RecordCounts
pub mod RecordNamed
pub mod SchemesFaults
pub mod SoundSpec
pub mod Judging
pub mod FirstPattern
pub mod OwnExprs
