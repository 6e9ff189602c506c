pub mod Options
pub mod Status
pub mod Program
pub mod private
