pub mod Entry
pub mod Examples
pub mod Index
pub mod Kinds
pub mod Page
pub mod Status
