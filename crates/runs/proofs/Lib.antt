pub mod Bools
pub mod Bits
pub mod Counts
pub mod Flags
pub mod Pieces
pub mod Fills
pub mod Searches
