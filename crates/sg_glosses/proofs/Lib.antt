mod Currents
mod Outcomes
mod Evaluating
mod Undoing
mod Entering
mod Saving
mod Selecting
mod Keeping
