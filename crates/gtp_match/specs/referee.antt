-- Definitions of a match that a referee may end.
pub mod Ruling
pub mod Refereed
pub mod ResultLine
pub mod Calls
