-- Which plays bring back an earlier board.
pub mod ReplayedBoards
pub mod PlaysTakenBack
pub mod KoPoints
pub mod KoPointsFound
pub mod OnlyKoPoint
pub mod OneCapture
pub mod LoneStones
pub mod KoPointPlays
