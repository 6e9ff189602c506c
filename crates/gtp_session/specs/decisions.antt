-- Decision procedures: each says, of a definition of `specs/`, whether it holds.
pub mod Candidate
