pub mod Books
pub mod Leads
pub mod Machines
pub mod Places
pub mod Proofs
pub mod Sheets
