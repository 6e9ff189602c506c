-- What happens at one side.
pub mod HearingLemmas
pub mod KeptByOutcome
pub mod KeptByReply
pub mod OutcomeLemmas
pub mod SideLemmas
