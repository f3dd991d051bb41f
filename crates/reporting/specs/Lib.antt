pub mod Blocks
pub mod Replays
pub mod Endings
pub mod Reports
pub mod Streams
