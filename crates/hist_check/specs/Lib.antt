pub mod Reached
pub mod Searched
pub mod VerdictText
