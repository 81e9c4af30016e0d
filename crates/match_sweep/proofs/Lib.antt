mod Passed
pub mod Tables
mod Wording
pub mod Planning
pub mod Picking
pub mod Levelling
pub mod Stepping
pub mod Reaching
pub mod Cutting
pub mod LevelSteps
mod LevelOpening
mod Listing
mod Ranking
mod Seeing
mod Nearing
pub mod Walking
pub mod Lowering
pub mod OfBook
