-- Floods: chains and regions found from their points.
pub mod PlaceSets
pub mod Regions
pub mod OneChain
pub mod Liberties
pub mod Beside
