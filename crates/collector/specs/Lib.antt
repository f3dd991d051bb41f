pub mod Visits
pub mod Frames
pub mod Turns
pub mod Collect
