pub mod Inputs
pub mod Shows
