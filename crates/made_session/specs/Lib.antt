pub mod Draws
pub mod Session
pub mod Commands
pub mod Totals
