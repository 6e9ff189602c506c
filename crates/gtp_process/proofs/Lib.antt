pub mod streams
pub mod Lateness
