-- What the proofs of the crate's functions cite, on plain values.
pub mod Range
pub mod WrapSteps
pub mod MeasuredParts
