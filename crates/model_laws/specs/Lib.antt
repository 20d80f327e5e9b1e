pub mod DatabaseLaws
pub mod FrameLaws
pub mod Paths
pub mod StatementLaws
pub mod SubstitutedTrees
