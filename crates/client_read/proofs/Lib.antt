pub mod Standings
pub mod Looking
pub mod Pinned
pub mod Serving
pub mod Closing
pub mod Making
pub mod Acting
