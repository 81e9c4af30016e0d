pub mod Books
pub mod OnePair
pub mod Answers
