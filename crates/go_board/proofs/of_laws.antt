-- What the laws of `laws.rt` say.
pub mod BoardsAndScores
pub mod KoRules
pub mod ChainsAsSets
pub mod GameEnds
pub mod RandomMoves
pub mod Hashes
pub mod EmptyBoards
