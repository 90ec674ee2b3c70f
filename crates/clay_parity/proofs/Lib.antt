pub mod NodeLemmas
pub mod BlockPlaces
pub mod GroupLaws
pub mod ShortLemmas
pub mod ChunkLists
pub mod ParityLemmas
pub mod FlatLemmas
pub mod ColumnSums
