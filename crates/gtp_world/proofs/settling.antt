-- How a world settles, and that both sides have caught up then.
pub mod CaughtUpLemmas
pub mod IdleLemmas
pub mod RoundLemmas
pub mod SettleLemmas
