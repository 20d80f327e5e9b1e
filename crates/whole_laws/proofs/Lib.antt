pub mod Bindings
pub mod Unify
pub mod Equations
