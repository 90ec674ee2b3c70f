pub mod LineLaws
pub mod DigitLaws
pub mod NumberLaws
pub mod DecimalLaws
pub mod ContentLaws
pub mod ByteLaws
pub mod CallLaws
pub mod TextLaws
pub mod HandedOn
mod Pieces
