pub mod Cover
pub mod GroupLemmas
pub mod Makes
pub mod ScoreLemmas
pub mod SolvedLemmas
