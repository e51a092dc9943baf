pub mod Fault
pub mod Line
pub mod Order
