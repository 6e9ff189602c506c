-- Refused moves that are retaken, and taken back.
pub mod MayRetake
pub mod RetakeCounts
