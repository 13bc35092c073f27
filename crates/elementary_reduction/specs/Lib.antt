-- Module 2: 2π to 160 binary places, and the remainder of an angle by it.
pub mod Reduction
pub mod Code
