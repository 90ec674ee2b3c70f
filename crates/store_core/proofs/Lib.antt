pub mod Places
pub mod Memory
pub mod Held
pub mod TouchedStripes
