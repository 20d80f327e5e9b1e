pub mod Checks
pub mod Index
pub mod Joins
pub mod Selections
pub mod SelectionsExamples
pub mod Tables
