pub mod Bays
pub mod Running
pub mod Steps
