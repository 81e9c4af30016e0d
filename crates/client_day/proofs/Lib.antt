pub mod Noting
pub mod Events
pub mod Reading
pub mod Days
pub mod Written
pub mod Serving
