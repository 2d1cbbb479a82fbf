pub mod NextPairs
