pub mod Failures
pub mod Options
pub mod Requests
pub mod Status
