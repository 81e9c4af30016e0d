pub mod Closing
pub mod inside
