-- The order of the empty points, the turns that draw from it, and the playouts that these are.
pub mod Orders
pub mod Turns
pub mod Decided
pub mod RightTurns
pub mod Scratches
pub mod Rollouts
