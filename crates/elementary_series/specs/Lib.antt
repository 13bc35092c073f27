-- What the elementary functions of module 2 share: power series over whole numbers, fractions and how near a float is to one, and what is
-- left of steps in fixed point.
pub mod Series
pub mod Fraction
pub mod Product
pub mod Conversion
pub mod Code
