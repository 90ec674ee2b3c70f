pub mod Lines
pub mod Hiring
