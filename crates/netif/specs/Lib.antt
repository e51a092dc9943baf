pub mod Receive
pub mod Send
