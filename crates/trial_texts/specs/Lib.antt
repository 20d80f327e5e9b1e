pub mod TrialExamples
pub mod TrialTexts
