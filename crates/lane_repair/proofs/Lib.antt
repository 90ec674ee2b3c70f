pub mod RowLemmas
pub mod ColumnRows
pub mod RepairLemmas
pub mod ViewLemmas
pub mod AroundLemmas
pub mod NodeRows
