pub mod Answers
pub mod Applied
pub mod Journal
pub mod Lives
pub mod MadeTerms
pub mod Truths
pub mod Typed
