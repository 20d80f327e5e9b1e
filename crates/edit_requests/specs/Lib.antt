pub mod Names
pub mod Operations
