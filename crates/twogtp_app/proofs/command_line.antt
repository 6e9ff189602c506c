-- The words of the command line.
pub mod Matches
pub mod Answering
pub mod CommandWords
