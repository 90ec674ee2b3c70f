pub mod Standing
pub mod Calls
pub mod Parts
pub mod Moments
pub mod Inside
pub mod Kept
pub mod Acting
