-- Module 2: the turn is 2π to 160 binary places.
pub mod Machin
