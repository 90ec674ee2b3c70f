pub mod Callers
pub mod Opened
pub mod After
pub mod Inside
pub mod Stores
pub mod StoreInside
