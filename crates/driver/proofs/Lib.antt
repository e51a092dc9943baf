pub mod Handing
pub mod Leaving
