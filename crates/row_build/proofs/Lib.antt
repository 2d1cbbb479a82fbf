pub mod SameSteps
pub mod RowsBuilt
