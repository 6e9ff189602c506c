-- The table of the commands: what is read, refused, changed and answered.
pub mod Rows
pub mod Names
pub mod Listed
pub mod LinesOfWords
pub mod Asking
pub mod Causes
pub mod Kept
