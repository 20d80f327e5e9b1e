pub mod Lines
pub mod MemberKeys
