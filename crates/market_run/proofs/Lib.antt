pub mod Serving
pub mod Parts
