pub mod Filling
pub mod Hashing
pub mod Indexing
pub mod Naming
