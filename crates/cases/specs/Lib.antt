pub mod Cases
pub mod Further
pub mod Alike
pub mod Devices
pub mod Example
