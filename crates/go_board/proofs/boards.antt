-- Boards and their places; the board before the first move.
pub mod Cells
pub mod Neighbours
pub mod Eyes
pub mod EmptyBoard
pub mod FirstBoard
pub mod HandicapPoints
pub mod FirstStones
