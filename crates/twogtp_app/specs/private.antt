-- What no reader has to believe: what functions inside the crate say of one another.
pub mod Leaving
pub mod Borrowing
pub mod Several
pub mod Steps
