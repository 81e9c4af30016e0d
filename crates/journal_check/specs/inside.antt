pub mod Comparing
pub mod Stops
pub mod Pieces
