pub mod Whole
pub mod Stages
pub mod Evaluated
pub mod Fresh
pub mod Plainest
pub mod Laws
pub mod States
pub mod Fronts
