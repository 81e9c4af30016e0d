pub mod Standing
pub mod Answers
pub mod Carries
pub mod Turns
pub mod inside
