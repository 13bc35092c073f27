-- What the proofs of the crate's functions cite, on plain values, and what the crates above cite: how values are written, and remainders.
pub mod Patterns
pub mod Fields
pub mod IntegerRoot
pub mod LeadingZeros
pub mod UnitPatterns
pub mod SquareRootCases
pub mod NearestRoot
pub mod SizeBits
pub mod RoundAwayCases
pub mod ConversionCases
pub mod WideningCases
pub mod SameValue
pub mod SmallRemainder
pub mod RemainderSteps
pub mod RemainderRange
pub mod WholeRemainder
pub mod RemainderCases
