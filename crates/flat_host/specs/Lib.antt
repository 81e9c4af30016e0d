pub mod FlatState
pub mod Steps
pub mod Parts
pub mod Turns
pub mod Walks
pub mod Views
pub mod inside
