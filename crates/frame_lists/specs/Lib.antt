pub mod Entries
pub mod Listings
pub mod Lists
pub mod Orders
pub mod Steps
pub mod Together
pub mod Places
