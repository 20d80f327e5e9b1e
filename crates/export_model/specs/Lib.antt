pub mod Exported
pub mod ExportedExamples
