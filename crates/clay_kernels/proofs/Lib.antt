pub mod LaneLemmas
pub mod NibbleLemmas
pub mod ProgressLemmas
pub mod RowLemmas
