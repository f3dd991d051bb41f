pub mod Traces
pub mod Service
pub mod Lines
pub mod Sums
pub mod Reports
pub mod Programs
