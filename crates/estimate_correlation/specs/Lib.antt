-- Module 4 of the scope, its first half: the correlation matrix.
pub mod Correlation
pub mod Code
