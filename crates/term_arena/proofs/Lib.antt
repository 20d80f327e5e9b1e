pub mod TermLaws
pub mod WalkLaws
pub mod StepLaws
pub mod ArenaLaws
pub mod SinceLaws
pub mod MeasureLaws
