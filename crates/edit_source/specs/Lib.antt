pub mod Host
pub mod MemSource
pub mod Sources
