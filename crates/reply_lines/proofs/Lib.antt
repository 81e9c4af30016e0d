pub mod Items
pub mod Placing
mod Examples
pub mod Parts
pub mod Printable
pub mod Existing
pub mod Singly
pub mod ToldTexts
mod Reporting
mod Shown
pub mod Outputs
pub mod Gathering
mod NumberedLines
mod WrittenLines
mod FillLines
mod Journals
mod Levels
mod Counting
