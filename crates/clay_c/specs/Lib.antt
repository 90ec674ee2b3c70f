pub mod Status
pub mod Pieces
pub mod Calls
pub mod Helpers
pub mod Missing
pub mod Lost
pub mod Without
pub mod Apart
