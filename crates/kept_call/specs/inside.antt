pub mod Rounds
pub mod Served
