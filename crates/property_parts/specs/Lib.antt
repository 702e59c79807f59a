pub mod Form
pub mod Formula
pub mod Parts
pub mod Table
