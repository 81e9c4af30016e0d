pub mod Running
pub mod Making
pub mod Closing
pub mod Gathered
pub mod Replayed
pub mod TakingOut
