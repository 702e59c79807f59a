pub mod Number
pub mod Format
pub mod Faults
pub mod Judgement
pub mod TakenUp
pub mod Reading
