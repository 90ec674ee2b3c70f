pub mod Columns
pub mod Distances
pub mod Generated
pub mod SmallColumns
