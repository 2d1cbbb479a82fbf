pub mod TextSize
pub mod RowLines
