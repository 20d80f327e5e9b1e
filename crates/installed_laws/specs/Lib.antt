pub mod CanBePutIn
pub mod CanBePutInExamples
pub mod FinishedCanBePutIn
pub mod InstalledFault
