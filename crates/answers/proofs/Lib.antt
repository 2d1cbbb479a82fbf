pub mod ReadText
pub mod Cut
