pub mod Noted
pub mod SiteView
pub mod Seen
pub mod UsePlaces
