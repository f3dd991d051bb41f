pub mod Alike
pub mod HitLaws
pub mod Formula
pub mod Loads
pub mod Locations
pub mod Found
