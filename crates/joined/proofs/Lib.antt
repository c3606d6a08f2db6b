mod Joins
pub mod Touches
