-- Digits, ints and komi.
pub mod Ints
pub mod Komis
