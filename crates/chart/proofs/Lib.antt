pub mod Checked
pub mod Ranges
