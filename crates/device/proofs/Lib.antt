pub mod Rows
pub mod Served
