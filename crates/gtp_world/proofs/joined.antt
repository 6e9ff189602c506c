-- What joins the controller, the engines and the bytes, and what follows from it.
pub mod AgreementLemmas
pub mod EventLemmas
pub mod InStepLemmas
pub mod JoinedLemmas
pub mod ReachedLemmas
