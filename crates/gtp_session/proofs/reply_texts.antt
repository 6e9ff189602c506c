-- The texts of replies.
pub mod NeatTexts
pub mod Spoken
