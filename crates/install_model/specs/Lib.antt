pub mod Installed
pub mod InstalledExamples
pub mod InstallAnswers
pub mod InstallAnswersExamples
pub mod Moved
