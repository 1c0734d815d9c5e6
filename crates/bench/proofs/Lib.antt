pub mod Questions
pub mod Ledger
pub mod Members
pub mod Refusing
pub mod Asking
pub mod Answered
pub mod Meanings
