pub mod Readable
pub mod Held
