pub mod Blocks
pub mod Traces
pub mod Streams
