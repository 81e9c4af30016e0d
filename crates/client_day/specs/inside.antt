pub mod Desks
pub mod Days
pub mod Rounds
