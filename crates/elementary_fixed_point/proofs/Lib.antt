-- Laws of fixed point that the crates of the elementary functions cite. Nothing in them is about one function.
pub mod TwoDigits
pub mod Enclosures
pub mod Chains
pub mod PowerSums
pub mod Tails
pub mod Approximations
pub mod PowerOfTwo
pub mod FromFloat
pub mod ToFloat
pub mod RatioBound
