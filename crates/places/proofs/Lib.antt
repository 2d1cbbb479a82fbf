pub mod Search
pub mod Memory
