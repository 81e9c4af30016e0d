pub mod Report
pub mod Sums
pub mod Table
pub mod Trades
pub mod inside
