-- How many starts and commands there are.
pub mod Limits
