pub mod RowIn
