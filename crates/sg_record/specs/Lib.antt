pub mod Record
pub mod Entries
pub mod Premises
pub mod RecordView
pub mod EntryPlaces
