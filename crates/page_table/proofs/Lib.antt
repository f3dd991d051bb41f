pub mod Stretches
pub mod Descents
pub mod Walks
pub mod Local
pub mod Ends
pub mod FaultLaws
pub mod Stops
pub mod Ways
