pub mod Looks
pub mod Watched
pub mod inside
