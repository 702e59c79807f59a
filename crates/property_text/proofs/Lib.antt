pub mod Places
pub mod Read
pub mod Numerals
pub mod Spelled
pub mod Written
pub mod Standing
pub mod Alike
