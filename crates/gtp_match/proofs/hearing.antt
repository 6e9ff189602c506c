-- How bytes are heard, and what they leave.
pub mod Reading
pub mod Exactly
pub mod Pieces
pub mod Changes
pub mod LeftAlone
