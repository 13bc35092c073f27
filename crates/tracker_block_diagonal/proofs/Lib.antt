-- What the proofs of the crate's functions cite, on plain values.
pub mod Finite
pub mod Zeros
pub mod Blocks
pub mod PredictedHalves
pub mod CorrectedHalves
pub mod PartedHalves
