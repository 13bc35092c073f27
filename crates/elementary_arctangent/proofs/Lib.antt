-- Laws of the arctangent: the bits of a float's sign, the tables and constants against their rules, the error of each step, and the promise.
pub mod SignBits
pub mod OppositeSign
pub mod Tables
pub mod SeriesBound
pub mod Doubling
pub mod SecondQuotient
pub mod AngleBound
pub mod SmallQuotient
pub mod Range
pub mod Cases
pub mod SmallAngle
pub mod Symmetry
