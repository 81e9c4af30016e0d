pub mod Probing
pub mod InHistories
