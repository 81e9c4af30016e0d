pub mod Lines
pub mod Listed
pub mod Compared
pub mod Verdict
pub mod Reading
pub mod Laws
pub mod inside
