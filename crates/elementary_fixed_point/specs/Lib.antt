-- What the elementary functions of module 2 share: power series over whole numbers, fractions and how near a float is to one, and the
-- fixed-point steps that settle bits.
pub mod Series
pub mod Fraction
pub mod Product
pub mod Conversion
pub mod Ratio
pub mod Code
