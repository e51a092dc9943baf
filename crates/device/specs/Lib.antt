pub mod Fault
pub mod Laws
pub mod Meaning
pub mod Row
pub mod Transfer
