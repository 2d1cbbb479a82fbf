pub mod Frames
pub mod Texts
pub mod Programs
pub mod SampleTexts
