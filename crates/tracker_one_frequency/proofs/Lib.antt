-- What the proofs of the functions cite, on plain values.
pub mod UpdateLaws
