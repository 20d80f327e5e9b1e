pub mod DraftLaws
pub mod ShortLaws
pub mod StayLaws
