pub mod Targets
pub mod Owed
pub mod Handed
pub mod Complete
pub mod Keys
pub mod RulesOf
pub mod Literals
pub mod DefinedPlaces
