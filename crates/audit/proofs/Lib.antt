pub mod Entries
pub mod Listings
pub mod Laws
pub mod Existential
pub mod Agreement
pub mod Running
pub mod Auditing
