pub mod FileCalls
pub mod Model
