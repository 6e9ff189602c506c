-- What nobody has to check: no public clause speaks of it.
pub mod Asking
pub mod Hearing
pub mod Illegal
