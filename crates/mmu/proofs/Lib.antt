pub mod RawLaws
pub mod ServedLaws
pub mod Locations
pub mod FaultValues
