-- Places, columns and rows, and the points of handicap stones.
pub mod Places
pub mod HandicapPoints
