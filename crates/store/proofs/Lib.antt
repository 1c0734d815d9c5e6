mod Covering
mod Marks
pub mod Refusals
mod Valuations
