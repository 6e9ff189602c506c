-- The lines of a text and their words, and how a reader comes to them.
pub mod LinesOfTexts
pub mod Steps
pub mod Feeding
pub mod OneAfterOther
pub mod WordsOfLines
pub mod NumberedWords
mod LineExamples
