-- Pseudo-liberties: how they are counted, and what each change of the board does to them.
pub mod FillingPoints
pub mod PseudoLiberties
pub mod CountingAll
pub mod PlacingStones
pub mod RemovingStones
pub mod MergingIds
pub mod ChangingIds
pub mod NamedIds
pub mod StonesFields
pub mod Shares
pub mod StoneNumbers
