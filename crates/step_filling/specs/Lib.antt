pub mod Answers
pub mod ChainCounted
pub mod Counted
pub mod Defined
pub mod Filled
pub mod Kept
pub mod Wanted
