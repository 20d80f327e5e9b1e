pub mod Instances
pub mod NewVariables
pub mod OneJudgement
pub mod OneValuation
pub mod PairSetLaws
pub mod ReplacedTypes
pub mod Replacements
