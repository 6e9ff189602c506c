-- What a whole reply does, and why.
pub mod Outcomes
pub mod LegalMoves
pub mod Reasons
pub mod NoFault
pub mod Refusals
pub mod Faults
