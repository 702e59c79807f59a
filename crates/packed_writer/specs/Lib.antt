pub mod Number
pub mod Within
pub mod Writing
pub mod Written
