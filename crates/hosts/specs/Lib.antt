pub mod Bytes
pub mod HostCalls
pub mod Start
pub mod RawAccess
pub mod Reading
pub mod Hosts
pub mod Pages
pub mod Asking
