pub mod Terms
pub mod Links
pub mod Store
pub mod Marks
pub mod Sizes
pub mod Ranks
