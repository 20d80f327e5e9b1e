pub mod ItemLaws
pub mod StepLaws
