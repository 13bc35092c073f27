-- What only proofs and private functions cite.
pub mod Places
pub mod Answers
