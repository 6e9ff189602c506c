-- Definitions that the contracts of private functions use.
pub mod Marks
