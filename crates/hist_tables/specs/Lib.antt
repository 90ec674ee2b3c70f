pub mod Numbers
pub mod Tables
pub mod OperatorCounts
pub mod Losses
pub mod Lines
