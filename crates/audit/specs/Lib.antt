pub mod Runs
pub mod Laws
pub mod Running
pub mod Audits
