pub mod ApplyLaws
pub mod WantedLaws
pub mod FindLaws
