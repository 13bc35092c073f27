-- Laws that the crates of the elementary functions cite. Nothing in them is about one function.
pub mod Enclosures
pub mod PowerSums
pub mod Tails
pub mod Approximations
pub mod PowerOfTwo
pub mod ToFloat
