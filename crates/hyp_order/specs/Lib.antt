pub mod Falls
pub mod Orders
pub mod OrdersExamples
