pub mod Types
pub mod Scopes
pub mod Patterns
pub mod PatternsView
pub mod Bindings
pub mod OwnersView
pub mod Expressions
pub mod ExpressionsView
