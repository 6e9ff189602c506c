-- What is reported of bytes that are heard: retakes, and losses.
pub mod Once
pub mod Blame
pub mod LossReports
pub mod AllBytes
pub mod RetakeOnce
pub mod RetakeReports
pub mod Exact
