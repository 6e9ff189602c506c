pub mod CallCounts
pub mod Parts
pub mod WrittenTexts
