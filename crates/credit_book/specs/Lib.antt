pub mod Recorded
pub mod Serving
