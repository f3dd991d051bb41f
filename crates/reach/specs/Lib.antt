pub mod Reach
pub mod Leaves
pub mod Index
pub mod Relinking
