pub mod FallLaws
pub mod ListedLaws
pub mod NextLaws
pub mod OrderLaws
