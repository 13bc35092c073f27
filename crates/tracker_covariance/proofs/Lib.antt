-- What the proofs of the crate's functions cite, on plain values, and what the crates above cite: the entries of the matrices.
pub mod Filling
pub mod Entries
pub mod Floor
pub mod Transition
pub mod Textbook
