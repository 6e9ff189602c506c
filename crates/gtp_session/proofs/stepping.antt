-- Engines whose authors supply the choices.
pub mod Waits
pub mod Driving
pub mod Kept
pub mod OwnNames
pub mod Titles
pub mod Runs
