pub mod Leaf
pub mod Sweep
pub mod Claims
pub mod Rewrite
pub mod Machine
pub mod TableStore
pub mod Scan
pub mod Stores
