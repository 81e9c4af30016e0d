pub mod Heads
pub mod Near
pub mod Reaches
pub mod Walks
