pub mod Words
pub mod Faults
pub mod Walks
pub mod Readers
