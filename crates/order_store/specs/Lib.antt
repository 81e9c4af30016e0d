pub mod Linked
pub mod Orders
pub mod inside
