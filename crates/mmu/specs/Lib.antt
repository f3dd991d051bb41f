pub mod RawAccess
pub mod ServedAccess
pub mod FaultValues
