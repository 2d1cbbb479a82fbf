pub mod Reading
pub mod PairBytes
