pub mod Tape
pub mod Shown
pub mod Rule
pub mod Faces
