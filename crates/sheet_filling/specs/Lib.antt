pub mod Filled
pub mod Filling
