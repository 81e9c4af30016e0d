pub mod Bits
pub mod Far
pub mod Marked
