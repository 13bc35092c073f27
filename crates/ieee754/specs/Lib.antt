-- Module 1 of the scope, and the hypotenuse of module 2: what each float function means.
pub mod SquareRoot
pub mod Conversion
pub mod Order
pub mod Sign
pub mod Remainder
pub mod Integral
pub mod Hypotenuse
pub mod Binary32
pub mod Binary64
pub mod Code
