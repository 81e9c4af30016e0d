pub mod Looks
pub mod Showing
pub mod Rounds
pub mod Written
