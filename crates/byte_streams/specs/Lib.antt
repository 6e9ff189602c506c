pub mod Calls
pub mod Counts
pub mod Parts
pub mod Streams
pub mod Writing
