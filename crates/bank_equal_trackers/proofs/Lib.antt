-- What the proofs of this crate's functions cite, on plain values.
pub mod EqualBits
pub mod OneForThree
