pub mod Clashes
pub mod NeededPairs
pub mod Shared
pub mod Uses
pub mod Values
