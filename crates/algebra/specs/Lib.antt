pub mod Honest
pub mod Sizes
