pub mod Reads
pub mod Stages
pub mod Owed
pub mod Ends
pub mod Inside
