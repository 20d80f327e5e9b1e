pub mod AcceptedLaw
mod CodeBackLaws
pub mod CodeEndsLaw
mod CodeLaws
pub mod LabelLaws
pub mod LetterLaws
pub mod NormalLaws
pub mod NumberLaws
mod ReadLaws
pub mod RunLaws
mod StepLaws
pub mod TextLaws
mod UniqueLaws
pub mod WrittenLaw
