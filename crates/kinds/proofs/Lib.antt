pub mod KindLaws
pub mod Keys
