mod ByHead
mod ByHeadExamples
mod Constants
mod Counts
mod Floats
mod HeadLaws
pub mod Lists
mod Named
mod Opening
mod Repeats
mod Syntax
mod Typed
mod Usable
mod Wholes
mod Zips
