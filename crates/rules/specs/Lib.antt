pub mod Refusal
pub mod Tables
