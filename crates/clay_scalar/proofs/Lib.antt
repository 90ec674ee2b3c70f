pub mod Interpolation
pub mod Products
pub mod Parts
