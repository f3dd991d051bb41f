pub mod Fields
pub mod RoundTrips
pub mod Same
