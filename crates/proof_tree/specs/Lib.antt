pub mod Graphs
pub mod Keys
pub mod Adding
pub mod Given
pub mod Standing
pub mod Walks
pub mod Coding
