pub mod FreeLaws
pub mod NameLaws
pub mod NumberLaws
