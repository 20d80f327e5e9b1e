pub mod Cursors
pub mod Few
pub mod Leaves
pub mod Named
pub mod Tables
