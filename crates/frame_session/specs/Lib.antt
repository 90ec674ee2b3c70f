pub mod Status
pub mod Words
pub mod Session
pub mod Fits
pub mod Serving
pub mod Written
pub mod Serves
