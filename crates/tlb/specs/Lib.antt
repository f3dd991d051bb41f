pub mod Hit
pub mod Search
pub mod Load
pub mod Formula
pub mod Alike
