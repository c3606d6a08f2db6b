pub mod Computing
pub mod Alike
pub mod Example
