-- Each call keeps an examiner orderly.
pub mod Asked
pub mod Heard
