pub mod Bytes
pub mod Passes
pub mod Stores
pub mod Views
