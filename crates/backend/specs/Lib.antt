pub mod Look
pub mod Move
pub mod Respond
pub mod Segments
pub mod Tables
