pub mod Faults
pub mod Shapes
pub mod Frames
pub mod Calls
pub mod Least
pub mod Masks
pub mod Singles
pub mod SingleLaws
