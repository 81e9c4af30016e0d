pub mod Intake
pub mod Reading
pub mod Rounds
pub mod Script
pub mod Stage
pub mod Kept
