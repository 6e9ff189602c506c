-- Which value a text spells.
pub mod SpelledColours
pub mod SpelledVertices
pub mod Readers
pub mod ReadBack
