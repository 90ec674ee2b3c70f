pub mod Statuses
pub mod ServesLemmas
