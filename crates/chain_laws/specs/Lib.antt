pub mod Layout
pub mod Leaves
pub mod Reading
pub mod Adding
pub mod Laws
