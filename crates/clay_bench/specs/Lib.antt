pub mod Puts
pub mod Racks
pub mod Inside
pub mod Tasks
