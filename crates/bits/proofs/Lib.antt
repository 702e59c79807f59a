pub mod Whole
pub mod Mirrors
pub mod Puts
