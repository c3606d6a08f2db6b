pub mod Searches
pub mod Touches
