pub mod Header
pub mod Outstanding
pub mod Slot
