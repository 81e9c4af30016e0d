pub mod Heads
pub mod Ranked
pub mod inside
