pub mod Faults
pub mod Questions
pub mod Ledger
pub mod Matching
pub mod Laws
pub mod Texts
