-- The script, and the record that it brings an engine to.
pub mod Scripts
pub mod WithoutLast
pub mod Opening
pub mod Lines
pub mod Turns
