-- Worlds in which the engines of both sides are sans-IO, as the program keeps them.
pub mod FeedLemmas
pub mod RuledLemmas
pub mod ShownLemmas
