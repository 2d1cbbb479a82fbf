pub mod Hex
pub mod FrameRead
pub mod FrameWritten
