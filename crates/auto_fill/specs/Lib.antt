pub mod Answers
pub mod Labelling
pub mod Ready
pub mod Walking
