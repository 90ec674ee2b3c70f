pub mod Sequence
pub mod Calls
pub mod Steps
pub mod Script
