pub mod Credit
pub mod Market
pub mod Table
