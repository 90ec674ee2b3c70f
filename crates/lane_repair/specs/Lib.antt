pub mod Pieces
pub mod Views
pub mod Repaired
pub mod ReadBlocks
