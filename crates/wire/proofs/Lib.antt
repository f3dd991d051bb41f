pub mod Bytes
pub mod Elements
pub mod Turns
pub mod Trips
