pub mod Acts
pub mod Input
