pub mod Kinds
pub mod Ready
