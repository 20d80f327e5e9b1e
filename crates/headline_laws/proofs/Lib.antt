mod Exported
mod Filled
mod Unified
