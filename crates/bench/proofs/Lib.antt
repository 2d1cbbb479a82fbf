pub mod States
pub mod Words
pub mod One
