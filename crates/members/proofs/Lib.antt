pub mod Bits
pub mod Counting
pub mod Firsts
pub mod Listing
pub mod Minima
pub mod Ordering
