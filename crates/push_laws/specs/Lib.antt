pub mod QedProof
pub mod WrittenProof
