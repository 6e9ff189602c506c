-- What is sent ahead, and how bytes are shown.
pub mod SentAhead
