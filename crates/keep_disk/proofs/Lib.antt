pub mod Appending
pub mod Closing
pub mod Moments
pub mod Reading
pub mod Telling
