pub mod BookLaws
pub mod DraftSteps
pub mod FirstLaws
pub mod SizeLaws
