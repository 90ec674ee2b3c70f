pub mod Names
pub mod Faults
pub mod Rows
pub mod Ors
