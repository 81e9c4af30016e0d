pub mod Sought
pub mod Pulling
pub mod Within
pub mod Lowered
pub mod Late
mod Ending
mod Telling
mod Preferring
mod Linking
mod Listing
mod Booking
mod Behind
mod Pricing
mod Owning
mod Words
mod Heading
mod Stepping
mod Crossing
mod Owned
mod Packing
mod Seeking
mod Reached
