pub mod Words
pub mod Stretches
pub mod Walk
pub mod Faults
pub mod Reads
pub mod Ends
pub mod Stops
