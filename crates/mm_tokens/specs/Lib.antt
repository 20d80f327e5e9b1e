pub mod Kinds
pub mod Scan
pub mod Tokens
