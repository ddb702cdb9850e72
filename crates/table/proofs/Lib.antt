pub mod Removal
pub mod Steps
