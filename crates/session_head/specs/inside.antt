pub mod Draft
pub mod HeadText
pub mod Stage
pub mod Statement
