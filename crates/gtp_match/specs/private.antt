-- Definitions that the contracts of private functions use, and no public clause.
pub mod Conditions
pub mod Feeding
pub mod Borrowing
pub mod Adding
