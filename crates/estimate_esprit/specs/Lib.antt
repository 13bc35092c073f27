-- Module 4 of the scope, its second half.
pub mod Esprit
pub mod Code
