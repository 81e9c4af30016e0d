pub mod Payments
pub mod inside
