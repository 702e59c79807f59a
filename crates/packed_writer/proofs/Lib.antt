pub mod Bounds
pub mod Finish
pub mod Steps
