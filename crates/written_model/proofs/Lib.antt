mod BlankExample
mod CompressedExample
mod DoublingExamples
mod FilledExamples
mod FinishedExamples
mod FoundExamples
mod NamedExamples
mod PairsExamples
mod ProofTreesExamples
mod ProvesItselfExample
pub mod SoundIsRead
mod RefusedExamples
mod SearchGivenExample
pub mod SyntaxProofs
mod WrittenExamples
pub mod WholeDatabase
pub mod WholeExample
