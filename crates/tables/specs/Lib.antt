pub mod Number
pub mod Tabled
pub mod Faults
pub mod Judgement
pub mod TakenUp
