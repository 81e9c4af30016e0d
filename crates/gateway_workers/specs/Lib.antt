pub mod Lanes
pub mod SenderLanes
pub mod Gathering
pub use Rattle.credit_book.specs.Recorded
pub mod inside
