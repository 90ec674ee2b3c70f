pub mod Places
pub mod Laid
pub mod Logs
pub mod Memory
