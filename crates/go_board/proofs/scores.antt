-- Points that count for a colour.
pub mod Areas
pub mod HowMany
pub mod OpenPoints
