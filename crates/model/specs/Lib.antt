pub mod Reserved
pub mod Content
pub mod Rules
pub mod Grammar
pub mod Values
pub mod Readings
pub mod Models
pub mod Laws
