-- What passes between the controller and one engine.
pub mod AnswerLemmas
pub mod ExchangeLemmas
pub mod NextCommandLemmas
pub mod PieceLemmas
pub mod ReplyLemmas
pub mod ScriptLemmas
