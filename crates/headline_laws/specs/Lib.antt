pub mod Exported
pub mod Filled
pub mod Unified
