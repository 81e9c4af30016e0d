pub mod Credit
pub mod Market
pub mod Laws
pub mod Table
pub mod inside
