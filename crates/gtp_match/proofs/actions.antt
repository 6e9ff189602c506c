-- What comes next, and what holds then.
pub mod Tests
pub mod Conditions
pub mod Due
pub mod InStep
