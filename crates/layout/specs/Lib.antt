pub mod Layout
pub mod Message
