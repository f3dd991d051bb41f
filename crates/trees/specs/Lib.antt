pub mod Trees
pub mod Meeting
pub mod Fitting
