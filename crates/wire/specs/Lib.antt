pub mod Fit
pub mod Hand
pub mod Packet
pub mod State
pub mod Waiting
