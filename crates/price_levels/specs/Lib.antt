pub mod Rungs
pub mod Ticks
pub mod inside
