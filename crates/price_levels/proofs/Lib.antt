mod Marking
mod Apart
pub mod Adding
