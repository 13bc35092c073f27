-- Module 2, sine and cosine: the Taylor sums, the steps that settle the bits, and what is promised.
pub mod Taylor
pub mod Steps
pub mod Promise
pub mod Code
