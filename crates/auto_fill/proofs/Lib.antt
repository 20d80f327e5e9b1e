pub mod AnswerLaws
pub mod FitLaws
pub mod LabelLaws
pub mod SearchLaws
pub mod TupleLaws
pub mod WalkLaws
