pub mod ColumnLaws
pub mod ColumnLemmas
pub mod ColumnOfThree
pub mod DistanceLaws
pub mod GeneratorLaws
pub mod SmallColumnLaws
pub mod FactorRows
