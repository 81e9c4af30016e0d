pub mod FaultCounts
pub mod Reading
pub mod Writing
pub mod Gathering
