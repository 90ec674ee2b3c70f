pub mod LayerLaws
pub mod LimitLaws
pub mod Counting
pub mod ScoreLaws
pub mod Rising
pub mod ByScore
pub mod RepairLaws
