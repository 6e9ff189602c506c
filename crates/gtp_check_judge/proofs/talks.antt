-- What holds of a talk, and what is found in it.
pub mod Silence
pub mod Findings
