-- Which answer of a text comes first: a reply, a fault, or nothing yet.
pub mod OneByteMore
pub mod Faults
pub mod FaultStays
pub mod OneAnswer
pub mod Pieces
mod ReplyExamples
