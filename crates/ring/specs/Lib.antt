pub mod Fault
pub mod Page
pub mod Producer
pub mod Response
pub mod Total
