pub mod Words
pub mod Walks
pub mod Steps
pub mod Lookups
pub mod Readers
