pub mod ListLaws
pub mod FrameBack
pub mod TextBack
pub mod TextRead
