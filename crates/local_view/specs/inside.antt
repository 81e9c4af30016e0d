pub mod LocalBook
