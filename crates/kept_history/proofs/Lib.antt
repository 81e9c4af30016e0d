pub mod LineLemmas
pub mod BlockLemmas
pub mod Histories
pub mod Written
