pub mod SliceLemmas
