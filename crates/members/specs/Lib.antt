pub mod Listed
pub mod Minimal
pub mod Numbers
pub mod Order
pub mod Smallest
