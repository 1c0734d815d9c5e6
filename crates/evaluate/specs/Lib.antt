pub mod Layout
pub mod Faults
pub mod Evaluation
pub mod Rows
pub mod Steps
pub mod Rounds
pub mod Words
pub mod Nodes
