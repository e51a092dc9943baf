pub mod Entries
pub mod Fault
pub mod Map
pub mod Pin
pub mod Tables
