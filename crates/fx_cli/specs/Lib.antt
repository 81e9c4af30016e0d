pub mod Answered
pub mod KeptCall
pub mod Process
pub mod inside
