pub mod Groups
pub mod Ranges
pub mod Scores
pub mod Solved
