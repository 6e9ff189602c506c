-- What no reader has to believe: proofs that the choices of the policies are lawful, and what functions inside the
-- crate say of one another.
pub mod AuthorTexts
pub mod Completing
pub mod Lawful
pub mod Outcome
pub mod StepsFields
