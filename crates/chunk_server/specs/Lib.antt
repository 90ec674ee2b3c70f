pub mod State
pub mod Valid
pub mod Chunks
pub mod Steps
pub mod Core
pub mod Laws
pub mod Rows
