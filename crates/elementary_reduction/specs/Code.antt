-- What only private functions and proofs cite.
pub mod Limbs
pub mod Rests
