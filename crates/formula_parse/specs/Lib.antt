pub mod Answers
pub mod Charts
pub mod Ends
pub mod Finds
pub mod Fits
pub mod Made
pub mod Noted
