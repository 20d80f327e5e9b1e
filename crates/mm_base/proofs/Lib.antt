pub mod NumberTests
mod Places
pub mod Positions
pub mod SameTrees
pub mod TreeFacts
pub mod TreeFolds
pub mod TreeInduction
