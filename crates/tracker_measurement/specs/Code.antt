-- What a fast update and proofs cite.
pub mod Parts
