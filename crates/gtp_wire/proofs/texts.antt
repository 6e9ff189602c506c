-- What the words of a reply's text are.
pub mod Points
pub mod ReadBack
