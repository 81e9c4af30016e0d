pub mod Blocks
pub mod Keeping
pub mod Rounds
pub mod inside
