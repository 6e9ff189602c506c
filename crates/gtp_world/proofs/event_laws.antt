-- Laws of one event.
pub mod DownLemmas
