-- Decision procedures: each decides whether a definition of `specs/` holds.
pub mod Board
pub mod Chain
pub mod Counting
pub mod Game
