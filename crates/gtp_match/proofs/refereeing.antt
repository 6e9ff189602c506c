-- Matches that a referee may end.
pub mod Staying
pub mod Playing
pub mod LinesDiffer
