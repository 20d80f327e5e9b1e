mod BookExamples
pub mod ChainLaws
pub mod KeptLaws
pub mod Lists
pub mod NameLaws
pub mod RowLaws
pub mod Scopes
pub mod SizeLaws
pub mod SubstitutionLaws
pub mod SubstitutionTypes
pub mod TextLaws
mod TreesExamples
pub mod TypedLaws
mod UsableExamples
pub mod WordLaws
