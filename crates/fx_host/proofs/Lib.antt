pub mod Fronts
pub mod Changing
pub mod Locking
pub mod Serving
