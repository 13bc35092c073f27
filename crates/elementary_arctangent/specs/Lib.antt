-- Module 2, arctangent: the angle that the scope builds from Taylor sums, the special cases, what is promised, and the steps that settle the bits.
pub mod Angle
pub mod SpecialCases
pub mod Promise
pub mod Steps
pub mod Code
