-- What policies choose.
pub mod Policies
pub mod Books
pub mod CandidatesOfBoards
