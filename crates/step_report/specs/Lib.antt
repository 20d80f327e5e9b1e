pub mod Flaws
pub mod Marks
pub mod PutPairs
