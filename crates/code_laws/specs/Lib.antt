pub mod Lagrange
pub mod Columns
pub mod Solved
pub mod Rebuilt
