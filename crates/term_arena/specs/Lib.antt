pub mod Walks
pub mod Inside
pub mod Counted
