pub mod Fault
pub mod Pending
