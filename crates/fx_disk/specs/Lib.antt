pub mod Disk
pub mod FileCalls
pub mod InMemory
pub mod Model
pub mod ModelLaws
pub mod Untold
pub mod inside
