pub mod Numbered
pub mod NoTakes
pub mod Keeping
pub mod Begun
pub mod SoFar
pub mod Together
