pub mod NeededLaws
pub mod SetLaws
pub mod SharedLaws
pub mod UseLaws
pub mod VariableLaws
