pub mod Kept
pub mod DraftLists
