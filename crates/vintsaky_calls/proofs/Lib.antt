pub mod Sending
pub mod AddedNames
pub mod BegunAnew
pub mod EarlierBoards
pub mod Marks
pub mod Talking
pub mod TakenPoints
