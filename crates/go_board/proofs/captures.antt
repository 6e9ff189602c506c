-- What a play takes, and which stones are free after it.
pub mod CapturedStones
pub mod MakingPlays
pub mod FreeStones
