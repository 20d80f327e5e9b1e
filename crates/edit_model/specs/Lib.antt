pub mod Requests
pub mod RequestsExamples
pub mod Sessions
pub mod SessionsExamples
pub mod Serves
pub mod ServesExamples
