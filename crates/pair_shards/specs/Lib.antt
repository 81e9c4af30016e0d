pub mod Shards
pub mod inside
