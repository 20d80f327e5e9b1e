pub mod Steps
pub mod Provable
pub mod Texts
