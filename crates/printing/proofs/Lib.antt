pub mod TableText
