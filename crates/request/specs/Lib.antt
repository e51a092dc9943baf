pub mod Check
pub mod Checked
pub mod Content
pub mod Examples
