pub mod Filled
pub mod Forms
pub mod Lengths
pub mod Made
pub mod Values
pub mod Pieces
