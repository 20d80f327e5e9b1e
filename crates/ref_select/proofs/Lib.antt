pub mod AnswerLaws
pub mod ChosenLaws
pub mod ClosedLaws
pub mod NamedLaws
pub mod StepLists
