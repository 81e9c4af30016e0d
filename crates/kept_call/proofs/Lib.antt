pub mod Results
pub mod Commands
pub mod Streams
pub mod Rounds
pub mod RoundKeeping
pub mod RunEnding
pub mod Causes
pub mod Texts
pub mod Serving
mod Opening
mod Faults
pub mod Ends
mod Exactly
mod ReadingBack
mod Calls
