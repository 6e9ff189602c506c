-- The bytes of a reply, its parts, and what it says.
pub mod BytesAndValue
pub mod FirstWord
pub mod Newlines
pub mod Controls
