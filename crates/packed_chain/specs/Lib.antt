pub mod Places
pub mod TakenUp
