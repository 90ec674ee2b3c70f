pub mod SequenceLaws
pub mod ValidLaws
