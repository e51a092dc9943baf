pub mod Usage
pub mod Reading
