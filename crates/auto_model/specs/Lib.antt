pub mod AutoFilled
pub mod AutoFilledExamples
