pub mod Faithful
pub mod Demands
pub mod OneReply
pub mod Left
