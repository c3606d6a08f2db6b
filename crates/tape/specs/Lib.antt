pub mod Commands
pub mod Writing
