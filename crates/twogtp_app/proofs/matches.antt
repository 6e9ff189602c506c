-- The turns of a match, and how it is closed.
pub mod Closed
pub mod LossLines
pub mod Statuses
