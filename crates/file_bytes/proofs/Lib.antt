pub mod PlaceLemmas
pub mod LaidLemmas
pub mod MemoryLemmas
