pub mod Remainder
pub mod Division
pub mod Tables
pub mod Folding
