-- Definitions that the contracts of private functions use: what the readers of lines and of replies hold.
pub mod LineReading
pub mod ReplyReading
