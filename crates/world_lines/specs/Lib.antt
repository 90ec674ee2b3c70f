pub mod Names
pub mod Lists
pub mod Taken
pub mod Shown
