pub mod Counts
pub mod Known
pub mod Places
pub mod Told
pub mod Rows
pub mod RowSteps
pub mod Table
pub mod TableSteps
