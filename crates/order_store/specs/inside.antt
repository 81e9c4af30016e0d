pub mod Chains
pub mod Orders
pub mod Packed
pub mod Rows
