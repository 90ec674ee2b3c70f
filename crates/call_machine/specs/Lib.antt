pub mod Kinds
pub mod Calls
pub mod Going
pub mod Inside
pub mod Ends
pub mod Pinned
pub mod Owes
pub mod OwesLaws
