mod Places
mod Ordered
mod Below
mod Counts
mod RuleKeys
mod Completed
mod RuleTypes
mod HandedOnce
mod HandedRules
pub mod RulesSound
pub mod TextOrder
pub mod FirstInText
