pub mod Address
pub mod Entry
pub mod Empty
pub mod RoundTrips
