mod ProofPlaces
