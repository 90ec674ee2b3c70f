pub mod Names
pub mod Grammar
pub mod Spelled
pub mod Words
