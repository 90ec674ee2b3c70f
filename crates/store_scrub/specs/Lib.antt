pub mod Lost
pub mod Strays
