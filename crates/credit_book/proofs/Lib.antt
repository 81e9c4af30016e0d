pub mod Entering
pub mod Submitting
