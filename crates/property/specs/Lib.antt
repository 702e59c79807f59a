pub mod Limits
pub mod Asked
pub mod Meaning
pub mod Grammar
pub mod Reading
pub mod Written
pub mod Places
pub mod Judgement
