pub mod Steps
pub mod References
pub mod Separated
pub mod PatternLaws
pub mod LevelLaws
pub mod ExprReads
pub mod ExprSpelled
pub mod DeclReads
pub mod DeclSpelled
pub mod Exact
pub mod FirstLaws
mod Worked
pub mod ChainLemmas
pub mod RisingLaws
