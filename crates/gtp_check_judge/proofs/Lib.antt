pub mod scoring
pub mod commands
pub mod order
pub mod answers
pub mod talks
pub mod engines
pub mod checks
