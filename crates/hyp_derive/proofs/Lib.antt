pub mod FillLaws
pub mod HashLaws
pub mod IndexLaws
pub mod NameLaws
pub mod NewNameLaws
