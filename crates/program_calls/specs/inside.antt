pub mod Check
pub mod LoadSummary
pub mod Rounds
pub mod Status
pub mod Printed
pub mod Tool
