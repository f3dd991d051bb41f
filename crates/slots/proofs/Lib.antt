pub mod Slots
pub mod Start
