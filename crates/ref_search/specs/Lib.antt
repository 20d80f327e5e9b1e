pub mod Completing
pub mod Fitting
pub mod Matching
pub mod Placing
pub mod Searching
pub mod Wholes
