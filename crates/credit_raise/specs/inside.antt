pub mod Paying
pub mod Playing
pub mod Prices
pub mod Turns
pub mod Two
pub mod UnderWay
pub mod Waiting
