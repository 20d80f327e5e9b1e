pub mod KeptProofs
