pub mod Serving
pub mod Gathering
pub mod SenderLanes
