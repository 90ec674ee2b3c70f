pub mod Places
pub mod Spans
pub mod Parts
pub mod Asked
pub mod Mended
pub mod Gathered
pub mod Column
pub mod Rebuilt
