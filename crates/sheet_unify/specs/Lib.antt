pub mod Answered
pub mod Drafted
pub mod Ended
pub mod Judged
pub mod Lines
pub mod Made
pub mod Told
