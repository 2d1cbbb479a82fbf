pub mod MarkLaws
pub mod ChainLaws
