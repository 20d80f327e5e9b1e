pub mod Candidates
pub mod Counts
mod LeafLaws
mod LeafReading
pub mod ValueEarlier
pub mod ValueFronts
pub mod ValueLaws
pub mod ValuePlaces
pub mod ValueSizes
pub mod ValueTokens
