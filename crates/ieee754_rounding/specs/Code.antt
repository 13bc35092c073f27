-- What only laws and proofs cite.
pub mod Errors
