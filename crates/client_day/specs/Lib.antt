pub mod Script
pub mod Events
pub mod Notes
pub mod Desks
pub mod Days
pub mod Rounds
pub mod Text
pub mod inside
