pub mod Day
pub mod Lists
pub mod Parts
pub mod Table
pub mod Trades
