-- Sums in ascending order, and lists of complex numbers.
pub mod Ascending
pub mod Complex
pub mod Interleaved
pub mod Code
