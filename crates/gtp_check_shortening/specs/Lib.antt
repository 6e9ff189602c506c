pub mod LastGame
pub mod Played
pub mod Reduction
pub mod Shortening
pub mod Superko
