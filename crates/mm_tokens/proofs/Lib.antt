pub mod Marked
pub mod NextWord
pub mod ScanLaw
pub mod ScanSteps
pub mod Sets
pub mod WordLaws
