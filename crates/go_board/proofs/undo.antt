-- A play taken back.
pub mod PoppedStones
pub mod RestoredStones
pub mod BoardsBefore
pub mod UnmadePlays
pub mod LastTaken
