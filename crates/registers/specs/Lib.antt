pub mod Parity
pub mod Sets
