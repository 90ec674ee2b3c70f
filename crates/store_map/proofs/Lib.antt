pub mod MapLemmas
pub mod Outcomes
pub mod MapLaws
pub mod LimitLaws
