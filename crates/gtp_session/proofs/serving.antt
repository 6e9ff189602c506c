-- What a call of `serve_with` reads, writes and returns.
pub mod Conversation
pub mod Exits
pub mod Outcomes
