pub mod Refusals
pub mod Free
