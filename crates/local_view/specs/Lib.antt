pub mod LocalBook
pub mod inside
