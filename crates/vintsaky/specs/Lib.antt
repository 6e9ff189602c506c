pub mod Fresh
pub mod Games
