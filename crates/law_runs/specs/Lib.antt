pub mod Runs
pub mod Tried
