pub mod Calls
pub mod View
