-- Worlds of sans-IO engines go where worlds of sessions go.
pub mod AskedLemmas
pub mod CatchUpLemmas
pub mod EngineLemmas
pub mod LaneLemmas
pub mod LikenessLemmas
pub mod WorldLemmas
