-- The board of a playout: ids and pseudo-liberties without tests, stones taken by a flood, and places in rising order.
pub mod CapturedSets
pub mod RisingPlaces
pub mod PlayoutPlays
