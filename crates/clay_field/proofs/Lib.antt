pub mod Additive
pub mod FieldLaws
pub mod PowerLaws
pub mod Inverses
