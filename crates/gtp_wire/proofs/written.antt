-- What is written as a line or a reply, and that it is read back.
pub mod CommandWords
pub mod OneLine
pub mod OneReply
