pub mod Checked
pub mod DatabaseFacts
pub mod FrameFacts
pub mod FrameForms
pub mod KnownAt
pub mod KnownFacts
pub mod LabelFacts
pub mod Listed
mod NameWords
mod OneDatabase
pub mod OwnLeaves
pub mod Passing
pub mod PathLaws
mod PlaceFacts
pub mod RowFacts
pub mod Shapes
mod StandFacts
pub mod StatementFacts
mod SymbolFacts
pub mod Symbols
