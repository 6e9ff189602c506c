-- How a match ends.
pub mod Causes
pub mod GivenOnce
pub mod AfterMove
