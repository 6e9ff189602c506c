-- What an engine replies to lines, and what a controller sends it.
pub mod Replying
pub mod Sent
pub mod Genmoves
pub mod OneReplyALine
pub mod Quitting
