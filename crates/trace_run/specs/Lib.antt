pub mod Top
pub mod Serves
