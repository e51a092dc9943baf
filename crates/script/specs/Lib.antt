pub mod Verbs
pub mod Layers
pub mod Lines
pub mod Hex
pub mod Numbers
