pub mod NumberList
pub mod Workers
