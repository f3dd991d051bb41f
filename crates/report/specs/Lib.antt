pub mod Totals
pub mod Replays
pub mod Gains
pub mod Tallies
pub mod Sums
pub mod FaultKinds
