pub mod Example
pub mod Fit
pub mod State
