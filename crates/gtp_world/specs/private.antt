-- What functions inside the crate say of one another. No public clause speaks of it.
pub mod Room
