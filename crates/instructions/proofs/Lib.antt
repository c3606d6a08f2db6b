pub mod Guards
pub mod Halfwords
