pub mod Banks
pub mod Images
