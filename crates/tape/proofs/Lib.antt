mod ReadBack
pub mod Spellings
