pub mod Faces
pub mod Views
pub mod Passing
