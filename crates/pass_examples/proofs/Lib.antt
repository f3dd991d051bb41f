pub mod Trees
pub mod Refusals
pub mod Passes
