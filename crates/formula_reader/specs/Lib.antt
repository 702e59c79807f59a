pub mod Operators
pub mod Reading
pub mod Answers
pub mod Grammar
