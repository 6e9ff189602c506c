mod CaptureTexts
mod DrawnLines
pub mod Joining
mod LinesOfTexts
mod StonesOnBoards
mod StonesTaken
pub mod Earlier
