pub mod Sweeps
pub mod KeptLaws
pub mod StoreLaws
pub mod Scans
pub mod Storing
