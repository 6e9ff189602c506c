-- Scores of an empty board.
pub mod EmptyBoard
pub mod ReadBack
pub mod PlainPoints
pub mod Exponents
pub mod Texts
pub mod Even
