pub mod Starting
pub mod Numbers
pub mod Halves
pub mod Writing
pub mod Reading
pub mod Setting
pub mod ReadingBack
