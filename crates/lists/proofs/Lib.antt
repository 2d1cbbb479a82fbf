pub mod Tests
pub mod Bound
pub mod ByPlace
pub mod Lent
pub mod Front
pub mod Methods
