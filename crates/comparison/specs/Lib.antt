pub mod Agreement
pub mod Lists
