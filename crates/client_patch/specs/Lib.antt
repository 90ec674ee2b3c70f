pub mod Padded
pub mod Kept
pub mod Patches
pub mod Known
pub mod Stages
pub mod LookAfter
pub mod Holds
pub mod Inside
