pub mod BareLaws
pub mod BareWriting
pub mod Covered
mod DerivedNames
pub mod Elements
pub mod FilledAlike
pub mod Marks
pub mod Moved
pub mod NamedAlike
pub mod NothingMade
pub mod OneAnswer
pub mod OneBinding
mod OneLine
pub mod OneNaming
pub mod OneWriting
pub mod Placed
pub mod Plain
pub mod PlainAssertions
mod ReadsBack
pub mod SameBound
pub mod SameText
pub mod SearchStays
pub mod SearchedAlike
pub mod Settled
pub mod ValuedAlike
pub mod WellTrees
mod WellWritten
mod Wordy
mod WrittenPairs
pub mod WrittenSettled
pub mod WrittenTwice
mod WrittenWordy
