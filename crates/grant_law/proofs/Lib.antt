pub mod Counting
pub mod Pinning
pub mod Places
pub mod Steps
pub mod Unpinning
pub mod Verdicts
pub mod Weights
