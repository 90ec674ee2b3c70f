pub mod Lists
pub mod Loops
pub mod Cleared
pub mod NoneLeft
pub mod SameLost
