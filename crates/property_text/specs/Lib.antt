pub mod Faults
pub mod Spelling
pub mod Tokens
pub mod Reading
