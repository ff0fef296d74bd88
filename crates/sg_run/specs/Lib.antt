pub mod JobView
pub mod DeskView
pub mod SureWorld
pub mod Sessions
