pub mod Shape
pub mod Layers
pub mod Score
pub mod Repair
pub mod Limits
