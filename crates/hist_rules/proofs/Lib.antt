mod Judges
mod NameLaws
mod OrderLaws
mod ReplyLaws
mod MissingLaws
mod CauseLaws
pub mod HistoryLaw
mod PairLaws
mod LineLaws
mod SpoiledLaws
