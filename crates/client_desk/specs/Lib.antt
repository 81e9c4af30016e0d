pub mod Clients
pub mod Draws
pub mod Lines
pub mod Standing
pub mod inside
