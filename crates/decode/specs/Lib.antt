pub mod Codes
pub mod Table
pub mod Forms
pub mod Laws
