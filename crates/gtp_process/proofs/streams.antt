-- Calls of pipes, and what a process took of a text.
pub mod PipeCalls
pub mod TakenTexts
pub mod Awaited
pub mod ShownBytes
