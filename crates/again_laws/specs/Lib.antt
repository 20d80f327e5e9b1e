pub mod Leaves
pub mod Whole
pub mod Shown
pub mod Second
