-- What only proofs and private functions cite.
pub mod Turning
