pub mod Files
pub mod Images
pub mod Leaving
pub mod Moments
