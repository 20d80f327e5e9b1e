mod ChainCountLaws
mod OverTyped
mod TypedLaws
pub mod CountLaws
pub mod DraftLaws
pub mod ItemLaws
pub mod NameLaws
pub mod StepLaws
pub mod WantedLaws
