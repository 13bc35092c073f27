-- Module 2, the common logarithm: L and the quotient that the scope compares with, the steps that settle the bits, and what is promised.
pub mod Series
pub mod Steps
pub mod Promise
pub mod Code
