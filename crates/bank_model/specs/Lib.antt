-- Module 7: the bank.
pub mod Values
pub mod Following
pub mod Discrepancy
pub mod Pruning
pub mod Choice
pub mod Fade
pub mod Features
pub mod Code
