pub mod Scene
pub mod Passes
