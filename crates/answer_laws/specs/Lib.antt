pub mod Bare
pub mod WrittenReads
