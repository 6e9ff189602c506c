-- A check over all its starts.
pub mod Bounds
pub mod Reader
