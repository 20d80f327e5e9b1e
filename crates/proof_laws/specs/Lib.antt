pub mod Accepted
pub mod CodeEnds
pub mod Labels
pub mod Spellings
pub mod WrittenCode
