pub mod Books
pub mod Changes
pub mod Fronts
pub mod Keys
pub mod Numbers
pub mod UnderWay
