pub mod FaultLines
pub mod FaultLinesExamples
pub mod NamedFaults
pub mod Refusals
