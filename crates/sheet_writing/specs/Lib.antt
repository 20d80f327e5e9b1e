pub mod Ambiguous
pub mod Sheets
pub mod Sizes
