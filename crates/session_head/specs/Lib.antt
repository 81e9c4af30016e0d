pub mod Reason
pub mod Draft
pub mod Statement
pub mod Head
pub mod HeadText
pub mod inside
