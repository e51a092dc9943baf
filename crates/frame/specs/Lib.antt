pub mod Access
pub mod Domain
pub mod Fault
pub mod Memory
pub mod Owners
