-- What only this program and its proofs cite.
pub mod Memory
pub mod Calls
pub mod Blocks
pub mod Lines
