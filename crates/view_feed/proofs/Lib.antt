pub mod Adding
pub mod Comparing
pub mod Counts
pub mod Seeing
pub mod Taking
pub mod Feeding
