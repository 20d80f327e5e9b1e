pub mod Contents
pub mod Faults
pub mod Kept
pub mod Kinds
pub mod Reading
