pub mod Solved
pub mod Blocks
pub mod Short
pub mod Parity
pub mod Flat
