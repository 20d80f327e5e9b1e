pub mod ProofPlaces
