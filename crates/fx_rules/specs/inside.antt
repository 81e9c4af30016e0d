pub mod Command
pub mod Names
pub mod Orders
pub mod Trade
