-- What is asked.
pub mod Lines
pub mod InFull
pub mod Komis
