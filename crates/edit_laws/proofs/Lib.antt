pub mod OneReply
pub mod OneSheet
pub mod OneSuggestion
