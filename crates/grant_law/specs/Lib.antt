pub mod Examples
pub mod Sound
