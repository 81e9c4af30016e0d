pub mod Passes
pub mod Stood
