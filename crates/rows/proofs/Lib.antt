pub mod Rows
pub mod TableTest
