pub mod Changing
pub mod Locking
pub mod Opening
pub mod Reading
