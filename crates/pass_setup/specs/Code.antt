-- What only proofs and private functions cite.
pub mod Buffers
pub mod Steps
