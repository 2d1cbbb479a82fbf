pub mod Printed
pub mod One
