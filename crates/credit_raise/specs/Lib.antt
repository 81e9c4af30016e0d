pub mod Two
pub mod Laws
pub mod Turns
pub mod UnderWay
pub mod inside
