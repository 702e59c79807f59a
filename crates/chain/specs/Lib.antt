pub mod Limits
pub mod Markov
pub mod Questions
