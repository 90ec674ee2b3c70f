pub mod ReadLaws
pub mod MissingReadLaws
pub mod Marked
