-- What holds of every match is kept by every call.
pub mod Calls
pub mod CallLists
pub mod Down
pub mod Replies
pub mod Heard
