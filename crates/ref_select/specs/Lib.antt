pub mod Asked
pub mod Selecting
