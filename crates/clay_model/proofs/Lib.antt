pub mod SumLaws
pub mod PairLaws
pub mod Unique
pub mod Codewords
pub mod LayerNumbers
pub mod Stripes
pub mod Worked
mod Written
