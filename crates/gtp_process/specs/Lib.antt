pub mod Pipes
pub mod Starts
pub mod Endings
pub mod Quitting
pub mod Shown
pub mod Waiting
pub mod Laws
