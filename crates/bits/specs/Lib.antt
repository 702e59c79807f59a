pub mod Fields
pub mod Mirror
pub mod Wrote
