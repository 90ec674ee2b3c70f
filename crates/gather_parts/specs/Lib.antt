pub mod Wanted
pub mod Gatherings
pub mod Steps
pub mod Progress
pub mod States
pub mod Ends
pub mod Inside
pub mod Doing
