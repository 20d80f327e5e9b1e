pub mod Free
pub mod Spelled
