-- Faults on request.
pub mod UnderFaults
