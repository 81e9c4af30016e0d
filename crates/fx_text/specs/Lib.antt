pub mod Faults
pub mod Fields
pub mod Lines
pub mod Number
pub mod inside
