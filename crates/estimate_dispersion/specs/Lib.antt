-- Module 8 of the scope: two frequencies.
pub mod Dispersion
