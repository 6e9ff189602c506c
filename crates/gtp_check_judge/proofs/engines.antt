-- What is heard of a right engine.
pub mod ListOfCommands
pub mod Says
pub mod OneGame
pub mod Wire
pub mod Rightly
pub mod Followed
