pub mod InPage
pub mod Pages
