pub mod Staying
pub mod Keeping
pub mod Signing
pub mod Lines
