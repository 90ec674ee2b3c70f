pub mod Puts
pub mod Inside
