pub mod ScriptLaws
pub mod Hearing
mod Keeping
pub mod Taking
pub mod Journaling
pub mod Fronts
pub mod Feeding
pub mod Closing
pub mod ScriptReading
pub mod RoundLaws
pub mod Colons
