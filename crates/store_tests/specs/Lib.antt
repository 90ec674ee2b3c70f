pub mod Small
pub mod Shelf
pub mod Walk
